mod CallLemmas
mod Known
mod Writing
