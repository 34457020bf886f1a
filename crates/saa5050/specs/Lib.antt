pub mod Controls
pub mod Shapes
pub mod Row
pub mod CodeDots
pub mod CodeLetters
pub mod Laws
pub mod CodeSteps
