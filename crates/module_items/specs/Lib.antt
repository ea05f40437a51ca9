-- the items of sections, and one that is replaced
pub mod Items
pub mod Replacing
-- exports and imports under other names, and limits
pub mod Renaming
-- exports that are added at once
pub mod NewExports
-- segments and custom sections, as they are read
pub mod Segments
pub mod CustomSections
