pub mod ExprPrints
pub mod ExprQuoting
