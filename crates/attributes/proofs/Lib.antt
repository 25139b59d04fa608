pub mod LetterLaws
