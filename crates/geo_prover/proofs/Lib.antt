pub mod Finishing
pub mod BenchPrograms
pub mod BenchLengths
pub mod BenchNames
pub mod BenchSpelt
pub mod SomeBench
