pub mod Bound
pub mod Difference
mod DifferenceTests
pub mod Ends
pub mod Fraction
mod FractionTests
pub mod Interval
mod IntervalTests
pub mod Laws
pub mod Nesting
pub mod Root
pub mod RootTests
pub mod Rounded
mod RoundedTests
pub mod Search
pub mod SpanLaws
pub mod Units
