pub mod StepLaws
pub mod PayloadLaws
pub mod MoveLaws
pub mod NameLaws
