pub mod ExprPrinting
