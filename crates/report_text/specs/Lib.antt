-- What the contracts of `report_text` cite.
pub mod Places
pub mod Sheet
