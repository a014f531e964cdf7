pub mod ExprParsed
