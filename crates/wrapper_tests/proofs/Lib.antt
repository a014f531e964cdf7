mod CallLemmas
mod Deletes
mod Wished
