pub mod Delivery
pub mod DeliveryLaws
