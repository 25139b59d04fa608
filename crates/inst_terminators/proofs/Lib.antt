pub mod SwitchLaws
