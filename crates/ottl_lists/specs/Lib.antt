-- To be read in this order: Texts (conditions by their texts), Lists (of which one suffices).
pub mod Texts
pub mod Lists
