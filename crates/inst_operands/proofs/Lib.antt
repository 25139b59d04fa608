pub mod Twice
pub mod OperandLaws
pub mod RichLaws
pub mod LabelLaws
