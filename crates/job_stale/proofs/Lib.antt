mod Naming
mod Unread
