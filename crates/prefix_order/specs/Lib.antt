pub mod PrefixOrder
