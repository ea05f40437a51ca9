-- operators whose parts are translated
pub mod Changes
