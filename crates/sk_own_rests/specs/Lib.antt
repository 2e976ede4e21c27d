pub mod OwnLogs
