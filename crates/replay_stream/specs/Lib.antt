-- What the contracts of `replay_stream` cite.
pub mod Opening
pub mod Room
pub mod Played
