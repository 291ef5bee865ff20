pub mod Table
pub mod Ruledef
