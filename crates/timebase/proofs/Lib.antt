pub mod CalendarLemmas
pub mod ReadsBackLemmas
