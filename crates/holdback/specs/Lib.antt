pub mod HoldBack
