-- The bridge from labels to bytes, and demand 3 of the definition: the print of a typed program is its canonical text and lexes to its words.
pub mod Demand
