pub mod OtherCells
