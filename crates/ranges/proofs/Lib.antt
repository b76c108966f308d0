pub mod Choices
pub mod Sums
pub mod Beaten
pub mod Marks
pub mod Networks
pub mod Ends
pub mod Shapes
pub mod Answers
