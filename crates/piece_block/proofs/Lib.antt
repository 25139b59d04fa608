pub mod OpcodeLaws
pub mod StatementLaws
pub mod BlockLaws
pub mod PartLaws
