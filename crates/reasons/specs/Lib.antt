pub mod StoredReasons
