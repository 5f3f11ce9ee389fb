pub mod Again
pub mod Standing
