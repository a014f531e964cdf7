pub mod ExprLoops
