pub mod Starting
pub mod RoundTrips
pub mod Kind
pub mod Laws
