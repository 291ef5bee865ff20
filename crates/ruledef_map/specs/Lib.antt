pub mod RuledefMap
