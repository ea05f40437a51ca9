-- which items are left, and their new indices
pub mod ItemsLeft
-- what is claimed of new indices
pub mod IndexLaws
