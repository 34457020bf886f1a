pub mod Pixmap
