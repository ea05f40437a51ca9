-- hash maps as finite maps, tables by id, lists that grow, and how pushes number ids
pub mod EntryMaps
pub mod IdTables
pub mod Listed
pub mod NumberingLemmas
