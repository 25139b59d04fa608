pub mod CallLaws
pub mod CopyLaws
pub mod VoidLaws
