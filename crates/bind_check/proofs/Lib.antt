pub mod JoinLemmas
pub mod ShapeLemmas
pub mod SeenLemmas
pub mod ViewLemmas
pub mod CountLemmas
