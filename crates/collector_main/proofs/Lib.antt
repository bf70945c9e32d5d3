pub mod Courses
pub mod Rooms
pub mod Serving
pub mod Waiting
