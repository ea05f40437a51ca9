pub mod NamedSectionLemmas
