pub mod Report
pub mod Zero
pub mod Afternoon
pub mod Walk
pub mod Map
pub mod Channel
