pub mod Checked
pub mod InFlight
pub mod Inverse
