pub mod PartsOfLogs
