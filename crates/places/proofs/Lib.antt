pub mod OtherPlace
