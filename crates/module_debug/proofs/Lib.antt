-- sections that are written one after the other
pub mod SectionLemmas
