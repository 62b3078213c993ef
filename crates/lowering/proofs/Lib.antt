pub mod Slack
pub mod Pulls
pub mod Descent
