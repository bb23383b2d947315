-- figures: a folder for each module.
pub mod figure_table
