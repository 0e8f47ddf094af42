pub mod Reading
pub mod Results
pub mod Numbers
pub mod Paths
pub mod Shelves
pub mod Finishing
pub mod Beginning
pub mod Notes
