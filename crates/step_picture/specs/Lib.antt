pub mod Steps
pub mod Strips
pub mod StepCharts
