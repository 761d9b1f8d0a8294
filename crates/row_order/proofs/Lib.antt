pub mod Sorting
pub mod KeyOrders
