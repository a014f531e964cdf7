pub mod WriteSound
pub mod WriteComplete
pub mod WriteWeighing
pub mod WriteTokens
pub mod WriteRead
pub mod CursorSound
pub mod CursorComplete
pub mod CursorRead
