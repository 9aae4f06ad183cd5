pub mod PlaceTests
