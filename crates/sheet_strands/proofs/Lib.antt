mod Examples
mod Logs
