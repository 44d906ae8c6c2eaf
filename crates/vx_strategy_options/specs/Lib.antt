pub mod OptionViews
pub mod RuleViews
pub mod Causes
