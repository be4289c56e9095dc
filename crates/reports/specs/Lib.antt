pub mod Printing
pub mod StayTexts
