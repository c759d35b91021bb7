mod ReportEnds
mod FileEnds
mod RunEnds
mod Held
