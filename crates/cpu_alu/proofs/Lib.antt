pub mod DecimalMode
