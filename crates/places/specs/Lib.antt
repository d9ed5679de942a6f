pub mod OtherHalf
