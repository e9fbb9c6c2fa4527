mod Findings
mod Groups
mod Places
