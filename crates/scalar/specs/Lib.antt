pub mod Basic
pub mod Value
pub mod ValueLaws
pub mod Operator
pub mod NumberLaws
pub mod OperatorLaws
pub mod Scalar
pub mod ScalarLaws
