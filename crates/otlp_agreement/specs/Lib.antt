-- Agreement (what both encodings of a request are read as), Shallow (how deep its JSON nests).
pub mod Agreement
pub mod Shallow
